pub mod LogLaws
pub mod TailLaws
pub mod KeyLaws
pub mod Lists
