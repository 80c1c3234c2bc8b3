pub mod Ascii
pub mod Cut
pub mod Asking
pub mod Judging
pub mod SoFar
pub mod Tied
