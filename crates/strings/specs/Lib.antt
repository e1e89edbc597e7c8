pub mod Lexical
pub mod Numbers
pub mod Cut
