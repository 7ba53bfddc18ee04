pub mod Command
pub mod Grammar
pub mod Numbers
pub mod PageOptions
pub mod RefusedOptions
pub mod Words
