pub mod Members
pub mod ManyWalks
pub mod MeetingWalks
pub mod JoiningWalks
pub mod NewWalks
