pub mod Ancestry
pub mod FirstFault
pub mod SoundApp
