pub mod StreamAnswers
