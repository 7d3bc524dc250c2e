-- What only private functions cite: a reader of the public contracts need not read it. Assumes nothing.
pub mod Rule
