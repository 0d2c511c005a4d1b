mod Chain
mod Digits
