-- The unit that is put together of its rows.
mod ShortestUnit
