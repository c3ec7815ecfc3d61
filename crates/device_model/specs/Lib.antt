-- What happened to the devices, and what follows from it.
pub mod History
-- When devices stand for a history, and what their calls answer and add.
pub mod Devices
-- The same facts item by item, as tests and lists that compute.
pub mod ItemByItem
-- The laws that tie the two, and those of event files.
pub mod Laws
-- Event files: the list of events, and the first fault.
pub mod EventFile
-- What the parts of the code give: bits of a byte, and a line of an event file.
pub mod LineBits
pub mod EventReading
