pub mod UntoldAnswers
