mod Performing
mod Telling
mod Unasked
