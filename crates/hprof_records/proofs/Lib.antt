mod Chunks
mod ReadBack
