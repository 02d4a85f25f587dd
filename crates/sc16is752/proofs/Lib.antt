-- That every contract determines its result.
pub mod Determined
