mod Nodes
mod RowKinds
mod Stops
mod AtRow
mod AtExpression
mod AtFormula
