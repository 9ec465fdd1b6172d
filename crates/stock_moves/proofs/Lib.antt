pub mod WasteCarries
pub mod Going
pub mod StepMoves
