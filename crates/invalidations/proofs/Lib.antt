pub mod BlameLaws
pub mod PlaceLaws
pub mod TextLaws
pub mod Watching
pub mod WorkedBlame
pub mod WorkedInvalidations
