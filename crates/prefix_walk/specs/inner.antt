pub mod WalkEnds
