pub mod Standing
pub mod Mapped
pub mod Texts
pub mod Lines
pub mod Sending
pub mod Judging
pub mod Rising
pub mod Ended
