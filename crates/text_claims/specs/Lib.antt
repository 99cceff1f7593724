-- What is promised of a text, without the reader: which texts are read and which number with which place every other
-- text gets (`Occasions`, proved in `Exactly`), that 41 speaks of texts in bytes (`TokenTexts`), what the check can still say of a
-- text's table (`Checked`), what the table means for runs of its script (`Runs`; with P6, through the shortened list, `ShortRuns`;
-- with P9, by a list in either form, `EitherRuns`; with P11, for the stepping machine, `MachineRuns`), and the sentences of 02, P4 on
-- texts (`Figures`, `Refused`, `Recorded`, `Witness`; with P5 `DividedWitness`, with P6 `ShortWitness`, with P11 `MachineWitness`).
-- Assumes nothing.
pub mod Reading
pub mod FirstOut
pub mod Ranges
pub mod Stuck
pub mod Occasions
pub mod Exactly
pub mod Numbers
pub mod OpenBodies
pub mod Bounds
pub mod LeadingZero
pub mod TokenSpelling
pub mod TokenTexts
pub mod Runs
pub mod ShortRuns
pub mod Spans
pub mod RowShapes
pub mod Growing
pub mod GrowingForms
pub mod Checked
pub mod Figures
pub mod Refused
pub mod Recorded
pub mod Witness
pub mod DividedWitness
pub mod EitherRuns
pub mod ShortWitness
pub mod MachineRuns
pub mod MachineWitness
