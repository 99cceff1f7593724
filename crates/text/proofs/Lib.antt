pub mod Signs
mod Parts
mod Digits
