-- Said in contracts, and to be believed: State, Admission, Shown, StateText, Messages, Answers,
-- Running, History, Ends. Means: Places.
pub mod State
pub mod Admission
pub mod Shown
pub mod StateText
pub mod Messages
pub mod Answers
pub mod Running
pub mod History
pub mod Places
pub mod Ends
