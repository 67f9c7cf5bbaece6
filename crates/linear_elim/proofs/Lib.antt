pub mod BetweenLaws
pub mod ChosenFields
pub mod ColumnLaws
pub mod CountLaws
pub mod EqualityPlaces
pub mod ExtensionLaws
pub mod FlatLaws
pub mod FoldLaws
pub mod FoundLines
pub mod MadeLaws
pub mod MultiplierRanges
pub mod OriginLaws
pub mod OverflowLaws
pub mod OwnLoops
pub mod PairLaws
pub mod PointLaws
pub mod ResultLaws
pub mod ShapeLaws
pub mod StepLaws
pub mod SystemLaws
pub mod TakenSums
pub mod UpperLaws
mod WorkedSystems
mod CombineSteps
mod StepClauses
mod StepLoops
mod SystemLoops
