pub mod Added
pub mod Apps
pub mod Bodies
pub mod Cohorts
pub mod MembersOfApps
pub mod MembersOfRequests
pub mod Named
pub mod Texts
