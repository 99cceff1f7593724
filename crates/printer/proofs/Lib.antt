mod Signs
mod Lines
mod Short
mod Bytes
mod Walk
