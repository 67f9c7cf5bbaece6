pub mod FoldLines
pub mod Taken
pub mod ToldCombinations
pub mod Uppers
