-- What a desk keeps on which a job may go on that this program began.
pub mod Going
