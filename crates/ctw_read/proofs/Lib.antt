pub mod ItemLists
pub mod CodeLoops
pub mod FileLoops
pub mod Headers
pub mod WholeFiles
pub mod ReadLaws
