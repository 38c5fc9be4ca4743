pub mod Told
pub mod Strikes
pub mod Calls
pub mod inner
