-- What belongs to no one function. Each module says at its top what it shows.
pub mod Columns  -- a column that has one row more than its parent's repeats it
pub mod Onward  -- the table of where the climbs go on, as a table of parents
pub mod Climbs  -- what a climb over it finds
pub mod Copies  -- the copies, one column after the other
pub mod Pass  -- the invariant of the pass, and its end
