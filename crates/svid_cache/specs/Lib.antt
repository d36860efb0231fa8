pub mod Caches
pub mod Inside
pub mod Queue
pub mod Timetables
