-- What belongs to no one function. Each module says at its top what it shows.
pub mod NeedLaws  -- an order changes no need, and every need is small
pub mod TableLaws  -- the dimensions under an order are good, and so are the tables of L by them; what can be laid out
