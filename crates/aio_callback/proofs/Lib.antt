pub mod AnswerCompletes
pub mod StreamReadEnds
pub mod MarksAllowed
pub mod FinishesGrow
pub mod FirstPagesRead
pub mod AimNamesRead
