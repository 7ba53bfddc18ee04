-- A step on one handle: what it does to the lists and notes of its actor, and that the rule of the
-- table holds after it.
pub mod InvariantAfterStep
pub mod EventEffects
pub mod NoteEffects
pub mod MomentsAroundStep
pub mod StepKeepsInvariant
