pub mod ShortAnswers
