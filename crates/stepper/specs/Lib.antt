-- the rows to do in lent words; rows by their numbers; the statement due; the next row taken from the stack
pub mod Stack
pub mod Kinds
pub mod DueRows
pub mod Taking
-- what is read of a statement; a step tried; a law for each kind of statement
pub mod Parts
pub mod Steps
pub mod Statements
