pub mod LendLaws
pub mod HostLaws
pub mod CallLaws
pub mod Releases
