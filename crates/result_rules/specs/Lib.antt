pub mod Results
pub mod Table
