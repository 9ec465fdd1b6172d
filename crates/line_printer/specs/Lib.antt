pub mod MoveText
pub mod SmallMoves
pub mod VerdictText
pub mod ReadsBack
pub mod LineFile
pub mod FaultText
pub mod Reads
pub mod Fitting
