-- 02, P11: the stepping machine. First what is to be believed: the values that it works out, and the machine. Then that it agrees with
-- the meaning of a run: what is worked out, step for step, where the machine stops, whole calls, proved scripts, how many steps.
-- Last the rules of source document 002, figures, and wrong machines.

-- ---- what is to be believed

pub mod Values
pub mod Machine
-- ---- values: what is worked out in order, what stops it first, what is told of the run

pub mod Events
pub mod Working
pub mod Told
pub mod FirstFault
pub mod Overflow
-- ---- step for step

pub mod Places
pub mod LentState
pub mod Stands
pub mod Ready
pub mod Within
pub mod StepForStep
-- ---- plays: where the machine stops, and what the number says of the run

pub mod Reached
pub mod Answers
pub mod Sizes
pub mod Heights
-- ---- whole calls: what they answer, what they leave, calls gone on with

pub mod Calls
pub mod CallAnswers
pub mod Kept
pub mod Constants
pub mod Lent
pub mod Onward
pub mod Watching
pub mod StepOverflow
pub mod PlayOverflow
pub mod RunOverflow
pub mod Halted
pub mod StackRows
pub mod StackSteps
-- ---- proved scripts

pub mod Proved
pub mod Watched
-- ---- how many steps

pub mod StepBound
pub mod EnoughSteps
pub mod LoopFree
pub mod RowSteps
pub mod Witness
-- ---- source document 002

pub mod Step1
-- ---- figures

pub mod Figures
pub mod StopFigures
pub mod RoomFigures
pub mod ToldWrong
-- ---- wrong turns, and each number answered

pub mod Variants
pub mod RightWay
pub mod WrongTables
pub mod WrongWays
pub mod Wrong
pub mod EachNumber
