pub mod Access
pub mod Memory
pub mod View
pub mod Change
pub mod Store
pub mod Steps
pub mod Only
pub mod Laws
