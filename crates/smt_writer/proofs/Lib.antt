mod Constants
mod Refusals
