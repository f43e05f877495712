pub mod LogRecords
pub mod Keypoints
