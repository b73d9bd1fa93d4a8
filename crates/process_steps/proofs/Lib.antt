pub mod Forking
pub mod Settled
pub mod Promoted
pub mod Promotion
pub mod StoredSame
pub mod StoredPlace
pub mod StoredNotes
pub mod Stored
mod Growing
mod Packing
mod WithObject
mod MadeYoung
mod LargeRows
mod MadeLarge
mod MadeImage
pub mod QuietSteps
pub mod MoreClasses
pub mod ClassSteps
pub mod FewCards
pub mod FewSlots
pub mod RoomCounts
pub mod ImagePages
pub mod NamedPages
pub mod PageCounts
pub mod ToldPages
pub mod NewFormed
pub mod ImageRoom
pub mod SlotRoom
pub mod Sealing
pub mod Beginning
pub mod Finds
mod YoungRoom
