-- What belongs to no one function.
pub mod EntryLaws  -- blocks by their entries
pub mod StripLaws  -- entries written into three columns, tile by tile
pub mod TileLaws  -- what the tiles hold, the columns done so far, and the kernel's product
