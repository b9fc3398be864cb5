mod Opening
mod Turns
mod Whole
mod Words
mod Written
