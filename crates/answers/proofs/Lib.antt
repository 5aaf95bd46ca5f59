-- Laws of the answers.
--     Codes    a refusal is read off what a call returns
pub mod Codes
