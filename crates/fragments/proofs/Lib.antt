pub mod FollowLinks
