-- The modules of this crate's definitions and laws, in the order in which to read them.
pub mod Reading
pub mod Follow
pub mod ReadingWay
pub mod ReadingLaws
pub mod FollowLaws
pub mod AlikeLaws
