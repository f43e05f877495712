pub mod Texts
pub mod NumberLaws
pub mod NameLaws
pub mod Tails
pub mod SlotLaws
