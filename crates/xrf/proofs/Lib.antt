pub mod AnswerLaws
pub mod OneLaws
pub mod MadeLaws
pub mod NumberLaws
pub mod DrivenLaws
pub mod EachLaws
pub mod LiveLaws
