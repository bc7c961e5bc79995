pub mod Pass
pub mod OpenLent
