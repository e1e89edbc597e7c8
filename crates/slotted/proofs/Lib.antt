mod Growing
mod Slotting
