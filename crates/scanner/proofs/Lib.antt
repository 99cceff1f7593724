-- the runs and the numbers that they make
mod Fronts
mod Folds
-- the tokens
mod Packing
mod Keywords
mod Variables
mod Starts
