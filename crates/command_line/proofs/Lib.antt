pub mod GivenTogether
pub mod GrammarRulesAppend
pub mod MapWords
pub mod ParseClauses
pub mod WordValues
