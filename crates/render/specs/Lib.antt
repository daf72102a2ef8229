-- What the contracts of `render` cite.
pub mod Lines  -- the lines of an answer
pub mod Rendered  -- the outcome of a rendering, and the promise
