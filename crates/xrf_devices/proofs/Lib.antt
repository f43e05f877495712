pub mod FileLaws
pub mod FirstLaws
pub mod Parts
pub mod SectorLaws
