mod Returning
