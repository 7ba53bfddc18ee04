pub mod AnswerPages
